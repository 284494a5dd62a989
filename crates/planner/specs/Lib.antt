pub mod Confirmation
pub mod Token
pub mod Purpose
