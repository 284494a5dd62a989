mod Grown
mod Calls
