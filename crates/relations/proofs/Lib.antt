pub mod Closure
pub mod Gather
pub mod Leaves
pub mod Rows
pub mod Words
