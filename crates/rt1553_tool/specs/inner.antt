-- What the contracts of private functions and of loops speak of, and no promise to a caller needs.
pub mod Parts
pub mod Said
pub mod Input
pub mod Served
pub mod Told
