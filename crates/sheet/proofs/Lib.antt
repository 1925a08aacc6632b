pub mod Pairs
pub mod Worths
pub mod Drafts
