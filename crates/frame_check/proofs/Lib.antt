pub mod Rule
pub mod Linear
