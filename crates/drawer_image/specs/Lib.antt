pub mod Fields
pub mod Sections
pub mod Numbers
pub mod Checks
pub mod Judged
