pub mod Closing
pub mod Sites
pub mod Ahead
