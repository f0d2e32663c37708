pub mod Cases
pub mod Fields
pub mod Found
pub mod Order
pub mod Sixteen
pub mod Walks
