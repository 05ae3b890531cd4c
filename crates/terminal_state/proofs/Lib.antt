pub mod HeldLaw
pub mod CollectedLaw
pub mod RegistersLaw
pub mod CanSendLaw
pub mod SentLaw
