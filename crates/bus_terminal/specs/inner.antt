-- What an event makes of a terminal, and parts of an answer: what the contracts of private methods speak of.
pub mod Terminal
pub mod Answer
