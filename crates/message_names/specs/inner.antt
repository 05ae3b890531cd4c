-- What the model of the names speaks of.
pub mod Rows
