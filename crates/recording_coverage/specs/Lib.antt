pub use Rattle.bus_legal.specs.Description
pub mod Endings
pub mod Messages
pub mod Covers
pub mod Rows
pub mod Places
pub mod Texts
pub mod inner
