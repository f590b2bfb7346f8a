-- The definitions that the contracts of this crate are written in: what is written, read and returned.
pub mod Messages
pub mod Returns
pub mod Serialized
pub mod TomlErrors
