pub mod Meaning
pub mod Feeding
