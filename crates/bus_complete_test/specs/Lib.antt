pub use Rattle.bus_legal.specs.Description
pub mod CompleteTest
pub use Rattle.bus_legal.specs.Parts
pub mod Steps
pub mod Trials
pub mod Left
pub mod inner
