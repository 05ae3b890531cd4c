pub mod TakenLaws
pub mod PrintLaws
pub mod EscapeLaws
pub mod ShownLaws
