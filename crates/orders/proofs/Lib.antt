pub mod Lists
pub mod Counting
pub mod Changes
pub mod Keeps
pub mod Choice
