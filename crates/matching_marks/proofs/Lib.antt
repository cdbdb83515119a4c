pub mod Leaves
pub mod Marking
pub mod Operands
pub mod Reaching
pub mod RowKinds
pub mod Singles
