-- What the contracts of private functions speak of.
pub mod Added
pub mod Found
pub mod Gathering
pub mod StillLeft
pub mod Read
pub mod Said
pub mod Wrote
