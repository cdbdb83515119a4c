pub mod Faults
pub mod Marks
pub mod Places
pub mod Sweep
