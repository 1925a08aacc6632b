pub mod Counts
pub mod Reports
