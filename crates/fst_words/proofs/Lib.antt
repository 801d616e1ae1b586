-- Lemmas: what `clap` takes, loops over lists, the rules on names, numbers of twenty digits.
mod KnownVerbs
mod Parsing
mod Loops
mod Searched
mod Pairs
mod Labels
mod Digits
pub mod PlannedFiles
pub mod PlanLemmas
pub mod PrefixLemmas
pub mod InputLemmas
pub mod Counts
