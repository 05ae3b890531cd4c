pub mod CommandLaws
pub mod HeadingLaws
pub mod ReaderLaws
pub mod StatedLaws
pub mod VerifyLaws
pub mod PossibleLaws
