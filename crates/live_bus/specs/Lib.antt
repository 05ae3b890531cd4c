pub mod BusNumbers
pub mod LiveBus
pub mod Made
