pub mod Bounds
pub mod Delays
pub mod Shown
pub mod Starting
pub mod Walks
pub mod Sent
