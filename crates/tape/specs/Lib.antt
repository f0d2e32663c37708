pub mod Cases
pub mod Layout
pub mod Pace
pub mod Plan
pub mod Polls
pub mod Rows
pub mod Run
pub mod Steps
