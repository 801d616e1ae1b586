pub mod Removal
pub mod Construction
pub mod Faults
pub mod Answers
pub mod Merging
pub mod Gathering
pub mod Making
