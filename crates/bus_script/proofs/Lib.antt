pub mod ReadingLaws
pub mod PlayLaws
pub mod FeedLaws
pub mod MessageLaws
pub mod SlotsLaws
pub mod RunLaws
