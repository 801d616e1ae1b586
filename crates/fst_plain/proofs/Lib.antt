pub mod Bounds
pub mod Folds
pub mod Tables
pub mod Reached
pub mod Collecting
pub mod PlainOrder
pub mod Parts
