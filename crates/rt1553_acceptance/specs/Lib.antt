pub use Rattle.bus_legal.specs.Parts
pub mod Label
pub mod Remark
pub mod Text
pub mod Answered
pub mod Law
pub mod inner
