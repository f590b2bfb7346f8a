pub mod ReadSequences
pub mod WrittenSequences
