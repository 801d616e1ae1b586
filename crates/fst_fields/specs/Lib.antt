pub mod Lines
pub mod Decimal
pub mod Reading
pub mod Texts
