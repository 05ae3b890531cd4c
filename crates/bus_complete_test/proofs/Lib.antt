pub mod SlotWalk
pub mod Played
pub mod Sound
pub mod Length
pub mod Complete
pub mod TrialLaws
pub mod WrapLaws
pub mod WaitingLaws
