pub mod Clashes
pub mod Comparing
pub mod Descent
pub mod Infinity
pub mod Occurring
