-- What the contracts of private functions speak of.
pub mod Counted
pub mod CellNumbers
pub mod Rows
