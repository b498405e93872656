pub mod Logs
pub mod Meant
pub mod Measures
pub mod Of
pub mod Parts
pub mod Val
