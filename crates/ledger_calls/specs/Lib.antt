pub mod Calls
pub mod Books
