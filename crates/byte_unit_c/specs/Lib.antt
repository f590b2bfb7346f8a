-- The definitions that the contracts of this crate are written in: codes, and what the calls write and return.
pub mod Version
pub mod Flags
pub mod Values
pub mod Arithmetic
pub mod Codes
pub mod Spec
pub mod Error
pub mod Parse
pub mod Many
