pub mod Ancestors
pub mod Elements
pub mod Order
pub mod Ranges
pub mod RowLists
pub mod Size
