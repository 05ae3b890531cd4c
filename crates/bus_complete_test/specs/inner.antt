-- What an iterator over the exchanges keeps true of its fields.
pub mod Waiting
