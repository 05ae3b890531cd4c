pub mod Without
pub mod Spares
pub mod inner
