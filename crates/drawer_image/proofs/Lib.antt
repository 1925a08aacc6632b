pub mod Fields
pub mod Walks
pub mod Earliest
pub mod Sounds
pub mod Judges
pub mod Lawful
pub mod Passed
