pub mod Numbers
pub mod Rows
pub mod Names
pub mod Named
