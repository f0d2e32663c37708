pub mod Runs
pub mod Turns
pub mod Stepped
