-- What the contract of a private reader speaks of alone.
pub mod Fields
