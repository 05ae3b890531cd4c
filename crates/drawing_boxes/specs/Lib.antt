pub mod SetBits
pub mod Escaped
pub mod Refused
