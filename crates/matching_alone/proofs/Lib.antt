pub mod Entries
pub mod Filling
pub mod Leads
pub mod RowKinds
pub mod Short
