-- What only the contracts of private functions, and the model of `Normal`, speak of.
pub mod NormalView
pub mod Masks
