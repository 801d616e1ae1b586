pub mod Slots
pub mod Overflow
pub mod Placing
