pub mod Sets
pub mod Toml
pub mod inner
