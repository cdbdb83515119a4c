pub mod Ascii
pub mod Lines
pub mod Numbers
pub mod Reading
pub mod Written
pub mod Reported
