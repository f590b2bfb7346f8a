-- The laws of the parsers and of sizes.
pub mod Readers
pub mod Sizes
pub mod Binary
pub mod Words
pub mod Parsed
pub mod Versions
