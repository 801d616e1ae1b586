pub mod Names
pub mod Making
pub mod Answers
pub mod WalkLaws
