pub mod Accesses
pub mod Honest
pub mod View
pub mod Remembered
pub mod Example
