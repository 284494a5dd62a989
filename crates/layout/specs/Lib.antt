pub mod Image
pub mod Header
pub mod Address
pub mod Placing
pub mod Running
pub mod Places
