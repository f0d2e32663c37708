pub mod Follows
pub mod Held
pub mod Standing
