pub mod BestPaths
pub mod Answers
pub mod AnswerText
pub mod AnswerLaws
pub mod Filling
pub mod Building
pub mod ToldChains
