pub mod Limits
pub mod Tables
pub mod Orders
pub mod Counts
pub mod Choice
pub mod Slots
