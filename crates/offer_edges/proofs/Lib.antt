mod Offered
mod Stand
