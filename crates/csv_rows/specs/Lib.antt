-- Rows of tables in CSV.
pub mod Csv
pub mod Delimiter
pub mod Rows
pub mod inner
