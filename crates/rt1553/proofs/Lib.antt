pub mod LoadLaws
pub mod CompareLaws
pub mod EngineLaws
pub mod OneLineLaws
pub mod RefusalLaws
pub mod ProfileRanges
