pub mod TellLaws
pub mod MadeLaws
