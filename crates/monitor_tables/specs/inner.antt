-- What the contracts of private functions speak of.
pub mod Faults
pub mod Puts
pub mod Reads
