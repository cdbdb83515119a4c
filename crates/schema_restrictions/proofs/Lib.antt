pub mod Outside
pub mod Passes
pub mod Typed
