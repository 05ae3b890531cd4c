-- What a terminal keeps of its history, and how an event changes that: what the contracts of its parts speak of.
pub mod Buses
pub mod Standing
pub mod Message
pub mod Ended
pub mod Registers
pub mod Held
pub mod Replies
pub mod Places
