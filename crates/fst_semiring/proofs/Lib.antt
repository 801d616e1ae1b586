pub mod Order
pub mod Laws
pub mod Cancelling
pub mod Dividing
pub mod OfKind
pub mod Ranges
pub mod Numbers
pub mod Texts
