pub mod Faults
pub mod Medium
pub mod Calls
pub mod Memory
pub mod Bank
pub mod Plain
pub mod Window
