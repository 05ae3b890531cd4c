mod PartLaws
mod InputLaws
mod AnswerLaws
mod ServedLaws
