pub mod Counts
pub mod Places
pub mod Views
pub mod Steps
pub mod Takes
pub mod Joins
pub mod Says
pub mod Seen
