pub use Rattle.bus_legal.specs.Description
pub use Rattle.terminal_rules.specs.Out
pub mod Answer
pub mod Stands
pub mod Slots
pub mod Received
pub mod Waiting
pub mod inner
