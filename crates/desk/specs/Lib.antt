pub mod Cases
pub mod Input
pub mod Pile
pub mod Refusal
pub mod Room
