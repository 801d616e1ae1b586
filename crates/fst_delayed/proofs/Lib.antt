pub mod Apart
pub mod Keys
pub mod Fronts
pub mod Held
pub mod Handed
pub mod Inside
pub mod Ranged
pub mod Running
