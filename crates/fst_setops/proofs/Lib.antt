pub mod Led
pub mod Words
pub mod Ratios
pub mod Covering
pub mod Separation
pub mod Searching
pub mod Pairs
pub mod Slots
pub mod Bounds
pub mod Putting
pub mod Ways
pub mod WordBounds
pub mod SoughtWords
pub mod SoughtOn
pub mod SoughtReads
pub mod SoughtTaking
pub mod SoughtBegins
pub mod SoughtNoted
pub mod Readied
pub mod Telling
pub mod Transferring
pub mod OneComparison
pub mod Machines
mod Second
mod Leading
pub mod Lifting
pub mod Numbered
pub mod Through
pub mod Remaining
pub mod SameString
mod Resorted
pub mod Unweighing
pub mod OneAnswer
mod Answering
