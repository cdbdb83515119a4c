pub mod Chains
pub mod Strings
pub mod Text
