pub mod Lists
pub mod Tables
pub mod Written
pub mod SymbolLoops
pub mod SidesRead
pub mod Lengths
pub mod Parts
pub mod Loops
pub mod States
pub mod Headers
pub mod Decoded
pub mod Machines
pub mod Encoded
pub mod Values
mod Whole
pub mod Numbered
