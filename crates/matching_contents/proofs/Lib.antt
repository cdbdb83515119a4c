pub mod AttributeWord
pub mod ItemRuns
pub mod Lists
pub mod Subtree
