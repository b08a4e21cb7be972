pub mod Below
pub mod Classes
pub mod Knowledge
pub mod Masks
pub mod Offices
pub mod Sum
pub mod Terms
pub mod MasksLemmas
