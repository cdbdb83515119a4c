pub mod Attributes
pub mod Interleaves
pub mod Occurrences
