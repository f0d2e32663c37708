pub mod Answers
pub mod Places
pub mod Printed
pub mod Steps
pub mod Tests
