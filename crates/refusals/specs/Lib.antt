pub mod Digits
pub mod Questions
