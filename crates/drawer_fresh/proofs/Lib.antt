pub mod Lists
pub mod Fresh
