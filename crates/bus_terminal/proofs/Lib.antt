pub mod TakesLaw
pub mod StandsLaw
pub mod AnswerLaw
pub mod SlotsLaw
pub mod ReceivedLaw
mod WholeLaw
pub mod FlagLaw
mod EndingLaw
pub mod EngagedLaw
