-- What the contracts of private functions and of the run speak of, and no promise to a caller needs.
pub mod Digits
pub mod Leads
