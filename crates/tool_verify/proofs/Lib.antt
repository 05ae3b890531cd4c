pub mod PassingLaws
pub mod TriedLaws
pub mod OutcomeLaws
