pub mod Laws
mod Progress
