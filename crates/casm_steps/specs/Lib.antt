pub mod Executes
pub mod Path
pub mod Reading
