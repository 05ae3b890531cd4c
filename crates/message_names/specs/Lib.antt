pub mod NamedCells
pub mod NameRow
pub mod Names
pub mod inner
