pub mod Below
pub mod Equality
pub mod Masks
pub mod Members
pub mod Sums
