-- The definitions of unit sets and of the choice of a unit.
pub mod Family
pub mod Choice
pub mod AdjustedSize
pub mod ParsedAdjusted
pub mod ChoiceLaws
-- private: no public contract cites it
pub mod Multiples
