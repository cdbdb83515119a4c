pub mod Promises
pub mod Refused
