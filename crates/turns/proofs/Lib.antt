pub mod Invariant
pub mod Outcomes
pub mod Rounds
