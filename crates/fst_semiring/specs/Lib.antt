pub mod Cost
pub mod Semiring
pub mod Division
pub mod ValueLaws
pub mod Keys
pub mod WeightText
pub mod Names
pub mod Packed
