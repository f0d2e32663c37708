pub mod Unique
pub mod Tells
