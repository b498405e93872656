pub mod Annotates
pub mod Branches
pub mod Keeps
pub mod Marks
pub mod Rules
pub mod Turning
pub mod Waits
pub mod Walk
