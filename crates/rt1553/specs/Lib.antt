pub mod Load
pub mod Canon
pub mod Compare
pub mod Engine
pub mod Report
pub mod OneLine
pub mod Fault
