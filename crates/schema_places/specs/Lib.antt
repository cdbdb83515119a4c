pub mod Marks
pub mod Misplaced
pub mod Names
pub mod Paths
pub mod Places
pub mod Prohibited
pub mod Sources
