pub mod TextLaws
pub mod PlayLaws
