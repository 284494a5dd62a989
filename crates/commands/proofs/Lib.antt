mod Hexed
mod Joined
mod Reported
