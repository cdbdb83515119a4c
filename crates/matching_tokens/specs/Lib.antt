pub mod Marked
pub mod MarkTable
pub mod Tokens
