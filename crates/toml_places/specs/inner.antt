-- What the contracts of the reader's private functions speak of.
pub mod Steps
