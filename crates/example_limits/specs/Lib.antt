-- The definitions that the contracts of this program are written in.
pub mod Rules
