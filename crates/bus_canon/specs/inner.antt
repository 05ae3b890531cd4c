-- What the contracts of private functions speak of: the search for a difference.
pub mod Search
