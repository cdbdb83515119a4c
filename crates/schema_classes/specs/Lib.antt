pub mod Judging
pub mod Least
pub mod Made
pub mod Membership
pub mod Search
pub mod WhichRow
