-- What the contracts of private functions speak of, and no promise to a caller needs.
pub mod Full
pub mod Rows
