pub mod Turning
pub mod Lines
pub mod ByKind
pub mod Books
