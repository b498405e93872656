pub mod Answers
pub mod Cycles
pub mod Distances
pub mod First
pub mod Nearest
pub mod Needs
pub mod Rows
pub mod Terms
