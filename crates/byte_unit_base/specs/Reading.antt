-- What the parsers return, and the state machines by which a proof computes it.
pub mod ParseSpec
pub mod Line
pub mod Machines
pub mod Words
pub mod Parsed
pub mod Results
pub mod Binary
pub mod Ends
