pub mod Whole
pub mod Drive
pub mod Even
pub mod Order
pub mod Fed
pub mod Stepped
pub mod Demand3
