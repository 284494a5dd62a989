pub mod Equal
pub mod Feeds
pub mod Padding
pub mod Views
