pub mod Pushing
pub mod PushLaws
pub mod Values
pub mod Totals
pub mod Filling
