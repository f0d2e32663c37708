pub mod Layout
pub mod Readers
pub mod Lines
pub mod Cases
