mod Zeros
mod Ascending
mod Written
pub mod Escapes
mod Stops
