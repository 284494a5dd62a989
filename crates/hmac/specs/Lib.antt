pub mod Hmac
pub mod Chains
pub mod Keyed
