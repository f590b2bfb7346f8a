-- What a text is: units, their spellings, numbers and sizes.
pub mod Shape
pub mod Units
pub mod Version
pub mod Spelling
pub mod Number
pub mod SizeText
