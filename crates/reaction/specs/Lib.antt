pub mod Orderly
pub mod Setups
pub mod Reactions
pub mod Calls
pub mod Frames
