pub mod Members
pub mod Exchange
pub mod HeapOrder
pub mod HeapKeys
pub mod HeapMembers
pub mod HeapPuts
pub mod HeapTakes
