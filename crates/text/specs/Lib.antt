pub mod Typed
pub mod Ink
pub mod Pens
pub mod Digits
pub mod Cases
