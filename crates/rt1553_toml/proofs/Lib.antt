pub mod TableLaws
pub mod SetTexts
pub mod TreeFaults
pub mod TreeMeaning
pub mod TreeText
