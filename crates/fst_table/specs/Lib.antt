pub mod Slots
pub mod Placed
pub mod Found
