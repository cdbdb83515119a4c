pub mod Definitions
pub mod Falling
pub mod Kinds
pub mod Marks
pub mod Relations
pub mod RowRule
pub mod Rows
pub mod Views
