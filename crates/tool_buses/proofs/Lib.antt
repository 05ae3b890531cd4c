pub mod BusLefts
pub mod SharedLaws
pub mod AloneLaws
