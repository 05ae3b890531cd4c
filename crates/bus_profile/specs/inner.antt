-- What the contracts of the reader's private functions speak of.
pub mod FirstFault
pub mod Section
pub mod Choice
pub mod FirstWord
pub mod RangeParts
pub mod MissingCode
pub mod AllFaults
