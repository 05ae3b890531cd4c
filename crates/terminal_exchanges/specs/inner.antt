-- What the contracts of private functions speak of, and no script needs.
pub mod Counts
