pub mod Troubles
pub mod EndsWell
pub mod LegalCounts
pub mod Loading
pub mod Powered
pub mod Cut
pub mod inner
