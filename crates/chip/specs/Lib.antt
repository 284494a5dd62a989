pub mod Chip
