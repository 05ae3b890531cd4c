pub mod Outcomes
pub mod Load
pub mod Rates
pub mod Lefts
pub mod inner
