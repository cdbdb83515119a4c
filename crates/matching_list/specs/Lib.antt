pub mod Listing
pub mod MatchList
pub mod Start
