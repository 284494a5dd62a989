pub mod Bitwise
pub mod Blocks
pub mod Ends
pub mod Made
pub mod Turns
