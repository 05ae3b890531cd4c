-- What the contracts of private functions speak of: the word counts that are legal in one alone, and the groups that are added.
pub mod Alone
