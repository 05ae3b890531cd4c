-- What only the contracts of private functions speak of.
pub mod Says
pub mod Codes
pub mod Words
