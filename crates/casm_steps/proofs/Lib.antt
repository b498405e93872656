pub mod Addresses
pub mod Paths
pub mod Readings
pub mod Instructions
