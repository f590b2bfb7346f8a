-- The definitions that the contracts of this crate are written in: views and errors.
pub mod Capped
pub mod CommandLine
pub mod Quota
pub mod EntryView
pub mod Settings
