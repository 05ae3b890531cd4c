pub mod Causes
pub mod Printable
