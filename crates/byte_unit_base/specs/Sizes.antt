-- Which size a number of a unit is, and which texts are accepted as sizes.
pub mod Kinds
pub mod Least
pub mod OrNone
pub mod Accepted
