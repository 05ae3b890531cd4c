-- What the contracts of private functions and of loops speak of, and no promise to a caller needs.
pub mod Taken
