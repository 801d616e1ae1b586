pub mod Plain
pub mod Tables
pub mod PlainPaths
pub mod Collected
pub mod Strings
