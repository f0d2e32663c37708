pub mod Meaning
pub mod Event
pub mod Flags
pub mod Cases
