pub mod Written
pub mod Bytes
pub mod Records
pub mod Unique
