pub mod Metered
