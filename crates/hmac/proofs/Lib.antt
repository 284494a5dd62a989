pub mod Law
pub mod Pads
