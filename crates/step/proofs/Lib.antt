pub mod Parts
pub mod Inside
pub mod Readying
pub mod Words
pub mod Phases
