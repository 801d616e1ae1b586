-- In reading order: what is seen of a desk, what its calls promise, how exactly a memory desk behaves,
-- and what a desk over the operating system notes.
pub mod Seen
pub mod Desk
pub mod Kept
pub mod Sure
pub mod Noted
