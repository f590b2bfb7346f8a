-- The definitions that the contracts of this crate are written in: answers, reports and the ends of a run.
pub mod Answer
pub mod Ending
pub mod Laws
pub mod Lines
pub mod RunOutput
pub mod Answered
pub mod Report
