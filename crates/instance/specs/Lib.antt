pub mod Elements
pub mod NodeRule
pub mod Nodes
pub mod Walk
pub mod Width
