-- What the contracts of private functions speak of.
pub mod Words
pub mod Reads
pub mod Plays
pub mod Tallies
pub mod Settled
pub mod PartsTold
