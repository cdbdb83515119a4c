pub mod Tests
pub mod Uses
