pub mod PageTold
pub mod Listed
pub mod inner
