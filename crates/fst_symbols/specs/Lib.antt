pub mod Symbols
pub mod Reading
pub mod Adding
pub mod Faults
pub mod Kept
pub mod Seeds
