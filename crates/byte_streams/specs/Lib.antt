pub mod Device
pub mod Pace
pub mod Memory
