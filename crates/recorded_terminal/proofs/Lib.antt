pub mod SoFar
pub mod TellLaws
pub mod ToldSoFar
pub mod GapLaws
pub mod WayLaws
pub mod WatchLaws
pub mod CameLaws
pub mod FlagLaws
mod BeginningLaws
mod LaterLaws
