pub mod Depths
pub mod Limits
pub mod Tallies
