pub mod Content
pub mod TypeTable
