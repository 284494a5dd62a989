pub mod Bytes
pub mod Rules
pub mod Steps
pub mod Rounds
pub mod Expansion
pub mod Made
