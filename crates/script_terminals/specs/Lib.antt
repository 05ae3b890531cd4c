pub mod BusLine
pub mod BusTexts
pub mod BusReading
pub mod Playing
pub mod inner
