pub mod DigitLaws
pub mod LineLaws
pub mod RoundTrip
pub mod TranscriptLaws
mod LineFeedLaws
