pub mod Numbers
pub mod State
pub mod Text
pub mod PlainEvent
pub mod PlainAnswer
pub mod PlainFault
pub mod Live
pub mod Restored
