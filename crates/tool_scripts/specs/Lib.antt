pub mod Ends
pub mod Results
