pub mod Handed
pub mod Coding
pub mod Ascending
pub mod Caches
pub mod Graphs
pub mod DelayedLaws
