pub mod Last
pub mod Law
pub mod Numbers
