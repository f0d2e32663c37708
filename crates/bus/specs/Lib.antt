pub mod Command
pub mod Ready
pub mod Clock
pub mod Sent
pub mod Transfer
pub mod Cases
