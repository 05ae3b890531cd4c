pub mod Notes
pub mod ExchangeLaw
pub mod Distinguish
pub mod ExchangeAnswers
pub mod CountLaws
pub mod ShortestLaws
pub mod EventLaws
