pub mod Digits
pub mod Text
pub mod Line
pub mod Begins
pub mod Transcript
pub mod EventLine
pub mod inner
