pub mod Kinds
pub mod Heard
