pub mod Fields
pub mod CoveragePage
pub mod ResultsPage
pub mod MessageList
