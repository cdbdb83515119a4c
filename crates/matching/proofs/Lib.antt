pub mod Answering
pub mod Conditions
pub mod Leaves
pub mod Repetitions
pub mod Shares
pub mod TwoOperands
