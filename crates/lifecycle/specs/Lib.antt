pub mod Journal
pub mod Lived
pub mod Denials
