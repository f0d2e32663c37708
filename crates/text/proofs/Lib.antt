pub mod Orders
pub mod Ink
pub mod Pens
pub mod Decimal
pub mod Hex
pub mod Lent
