pub mod Findings
pub mod Places
pub mod Positions
pub mod Standing
pub mod Rules
