pub mod Answers
pub mod Matching
pub mod Promises
pub mod RoundTrip
