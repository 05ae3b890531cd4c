pub mod CodedLaws
pub mod HeldLaws
pub mod NumberLaws
pub mod TextLaws
pub mod StateLaws
