pub mod Answering
pub mod OneAnswer
pub mod Runs
pub mod Messages
