-- What is wrong with a text: its error, where it is, and the message.
pub mod ViablePrefix
pub mod Fault
pub mod Meaning
pub mod Position
pub mod Expected
pub mod UnitErrorView
pub mod Text
pub mod Quoted
pub mod PutAfter
pub mod Hints
