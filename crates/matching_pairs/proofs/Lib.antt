pub mod Entries
pub mod Fitting
pub mod Showing
