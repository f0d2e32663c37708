pub mod Laying
pub mod Ran
