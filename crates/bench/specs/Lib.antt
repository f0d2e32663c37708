pub mod Bench
pub mod Trace
pub mod Opens
pub mod Cases
