pub mod Passing
pub mod UnitResults
pub mod Digests
pub mod inner
