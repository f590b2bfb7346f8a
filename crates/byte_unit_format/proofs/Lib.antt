-- The lemmas that the proofs of this crate rest on: the parts of a text, its forms, and what is read of them.
pub mod NamedSpecs
pub mod WrittenForms
pub mod TextParts
pub mod ReadBack
pub mod BinaryStrings
pub mod AdjustedForms
pub mod AdjustedLengths
pub mod ShownForms
pub mod ShortExpansions
pub mod Widths
pub mod NarrowTexts
pub mod FewPlaces
pub mod UnitFraction
pub mod WithDigits
pub mod LaterVersion
pub mod LawProofs
