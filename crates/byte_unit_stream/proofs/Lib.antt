pub mod Bytes
pub mod Ends
pub mod ChunkRecords
pub mod Beginnings
pub mod RecordSteps
pub mod Runs
pub mod Courses
