pub mod Asks
pub mod Writes
pub mod Gives
pub mod Hosts
pub mod Opens
pub mod Pieces
pub mod Turns
pub mod Zeros
