mod CountLaws
mod CellLaws
mod Lists
mod RowLaws
mod EndingLaws
mod TableLaws
mod TextLaws
mod OnceLaws
mod PlaceLaws
pub mod SoFar
