-- The lemmas that the proofs of this crate rest on, from the units of a set up to the choice.
pub mod Quotients
pub mod Falling
pub mod Choosing
pub mod Rows
pub mod SizePowers
pub mod FewSteps
pub mod SomeChoice
pub mod LaterChoices
pub mod OneChoice
pub mod AdjustedLiterals
