pub mod AnyList
pub mod Held
pub mod Order
pub mod Seen
pub mod Steady
pub mod Whole
