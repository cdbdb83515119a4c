pub mod Matched
pub mod Refused
pub mod RoundTrip
pub mod Same
