pub mod MarkLaws
pub mod RowLaws
pub mod ScanLaws
pub mod WrittenLaws
