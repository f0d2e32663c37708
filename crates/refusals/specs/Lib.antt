pub mod Whole
pub mod Fields
