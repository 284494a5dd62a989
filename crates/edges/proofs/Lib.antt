mod Erased
mod Formed
mod Stand
