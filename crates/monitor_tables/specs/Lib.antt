-- Tables that a bus monitor exports, as recordings.
pub mod Fields
pub mod Header
pub mod Hearing
pub mod Messages
pub mod Recording
pub mod Refused
pub mod Rows
pub mod Table
pub mod inner
