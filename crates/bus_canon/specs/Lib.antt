pub mod Canon
pub mod Read
pub mod Difference
pub mod Fault
pub mod inner
pub use Rattle.line_format.specs.Answers
pub use Rattle.bus_legal.specs.Parts
