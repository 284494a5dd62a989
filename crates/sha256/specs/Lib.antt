pub mod Compression
pub mod Hash
