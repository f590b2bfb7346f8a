-- The lemmas that the proofs of this crate rest on: division, decimal digits, and terminating expansions.
pub mod Scales
pub mod RoundedUp
pub mod Estimates
pub mod ShortDecimals
pub mod ShortExpansions
pub mod Digits
pub mod WrittenDigits
pub mod PairsInLanes
pub mod FactoredNumbers
pub mod Fractions
pub mod Expanding
pub mod Nearest
pub mod Cut
pub mod Powers
pub mod TwosFives
pub mod Texts
