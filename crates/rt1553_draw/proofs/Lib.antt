pub mod MarkedLaws
pub mod WantedLaws
