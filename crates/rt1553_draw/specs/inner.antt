-- What the contracts of private functions speak of.
pub mod Drawn
pub mod Placed
pub mod Pieces
pub mod Marked
