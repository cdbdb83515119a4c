pub mod MatchList
pub mod Order
pub mod Putting
pub mod Root
