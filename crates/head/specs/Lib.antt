pub mod Faults
pub mod Phases
pub mod Moves
pub mod Commands
pub mod Answers
