pub mod Rowing
pub mod Lines
pub mod Moving
pub mod Ending
pub mod Beginning
