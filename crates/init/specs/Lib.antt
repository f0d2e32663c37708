pub mod Initialise
pub mod Fields
pub mod Lent
