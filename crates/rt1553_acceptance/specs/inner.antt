-- What the contracts of private functions speak of.
pub mod Answering
pub mod Fits
pub mod Puts
