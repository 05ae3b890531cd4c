pub mod ReadLaws
pub mod SettleLaws
pub mod ExplainedLaws
pub mod WordLaws
pub mod SinceLaws
pub mod TallyLaws
pub mod StretchLaws
pub mod PartLaws
