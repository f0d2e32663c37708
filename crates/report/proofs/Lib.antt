pub mod Lines
pub mod Halves
pub mod Carries
