pub mod Schedule
pub mod Left
pub mod Formats
pub mod Transfers
pub mod Entries
pub mod ScheduleRows
pub mod inner
