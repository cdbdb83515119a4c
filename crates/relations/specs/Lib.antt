pub mod Relations
pub mod Words
