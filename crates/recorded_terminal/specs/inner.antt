-- What the contracts of private functions speak of.
pub mod Followed
pub mod Latest
pub mod Gaps
pub mod Kept
pub mod Steps
