pub mod Merge
pub mod Leaving
pub mod Moves
pub mod Words
pub mod Paths
pub mod Theorem
pub mod Numbered
pub mod Through
pub mod Ranges
pub mod Searching
mod Appending
mod Parting
mod Segments
mod Counting
mod Stable
mod Answering
pub mod OneAnswer
