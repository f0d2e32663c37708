pub mod Serve
pub mod Order
