pub mod Rules
pub mod Calls
pub mod Walks
pub mod Expansion
pub mod Totals
pub mod Relation
pub mod Answers
pub mod Faults
