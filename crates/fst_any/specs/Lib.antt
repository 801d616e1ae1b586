pub mod Typed
pub mod Taken
