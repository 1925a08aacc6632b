pub mod Worlds
pub mod Steps
pub mod Law
