pub mod Puts
pub mod Frames
pub mod Moves
pub mod Calls
pub mod Meanings
pub mod Checks
pub mod Accepted
