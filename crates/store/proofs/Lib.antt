pub mod Bank
pub mod Blocks
pub mod Lowest
pub mod Residues
pub mod Windows
