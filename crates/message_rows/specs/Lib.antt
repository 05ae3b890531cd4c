pub mod Commands
pub mod Filter
pub mod StatusBits
pub mod Texts
pub mod inner
