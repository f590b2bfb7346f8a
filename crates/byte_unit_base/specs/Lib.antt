-- The definitions that the contracts of this crate are written in.
pub mod Grammar
pub mod Errors
pub mod Sizes
pub mod Reading
pub mod Laws
