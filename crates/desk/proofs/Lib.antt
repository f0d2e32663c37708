pub mod Inputs
pub mod Piles
pub mod Refusals
pub mod Rooms
