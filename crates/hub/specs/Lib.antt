pub mod Passes
pub mod Refusals
pub mod States
pub mod Heads
pub mod Slots
pub mod Reports
