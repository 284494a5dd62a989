mod Stored
mod Traces
mod Invariant
mod Keeps
mod Shown
mod Pokes
mod Steps
mod Pages
mod Loads
pub mod Kept
mod Restarts
mod Words
mod Staged
mod Updates
mod GoesOn
