pub mod Mask
pub mod Word
pub mod Command
pub mod Status
pub mod Mode
pub mod Cell
pub mod Laws
