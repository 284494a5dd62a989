pub mod Failure
pub mod Hex
pub mod Key
pub mod Kind
pub mod Report
pub mod Token
