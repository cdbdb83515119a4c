pub mod Items
pub mod Job
pub mod Listed
pub mod Reach
pub mod Restricted
pub mod Rules
pub mod Spans
