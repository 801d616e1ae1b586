pub mod Members
pub mod Orders
pub mod Leaving
pub mod Heap
pub mod HeapOrder
