pub mod HeaderLaws
pub mod PutLaws
pub mod ReadBackLaws
pub mod ReadLaws
pub mod RowLaws
pub mod TableLaws
