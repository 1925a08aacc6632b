pub mod Meaning
pub mod Writes
pub mod Drawers
pub mod Theorems
