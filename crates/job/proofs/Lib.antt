pub mod Decimals
pub mod Job
pub mod RoundTrip
pub mod Texts
pub mod Limits
