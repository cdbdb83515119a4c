pub mod Parts
pub mod Setting
