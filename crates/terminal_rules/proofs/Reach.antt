-- What can't be reached of a description changes no answer.
pub mod Heard
pub mod Agrees
pub mod Past
pub mod Kept
pub mod Held
pub mod Answers
pub mod Same
