pub mod Job
pub mod Same
pub mod Work
