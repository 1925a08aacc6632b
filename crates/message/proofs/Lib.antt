pub mod FirstMapped
pub mod Smallest
pub mod Scan
