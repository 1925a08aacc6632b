pub mod Values
pub mod Sheets
pub mod Settings
pub mod Amounts
