-- What the contracts of private functions speak of.
pub mod Crowded
pub mod Results
