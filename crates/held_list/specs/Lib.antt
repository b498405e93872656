pub mod Difference
pub mod Editing
pub mod Held
pub mod Places
