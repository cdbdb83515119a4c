pub mod TypeTables
pub mod Types
