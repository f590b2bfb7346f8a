-- The definitions of the forms in which a size is written.
pub mod Plain
pub mod Layout
pub mod Forms
pub mod NamedSpecs
pub mod Adjusted
pub mod AdjustedString
pub mod Rounding
pub mod Room
pub mod Written
pub mod TextParts
pub mod UnitFraction
pub mod FewPlaces
pub mod WithDigits
pub mod FormLaws
pub mod BinaryString
pub mod VersionLaws
