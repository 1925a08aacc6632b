pub mod Held
pub mod Answers
pub mod Laws
pub mod Starts
pub mod Tables
