pub mod Blocks
pub mod Cmac
pub mod Chains
pub mod Keyed
