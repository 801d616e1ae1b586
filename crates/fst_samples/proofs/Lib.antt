pub mod Copying
pub mod Growing
