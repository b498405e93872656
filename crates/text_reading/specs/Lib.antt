pub mod Tokens
pub mod Places
pub mod Reading
pub mod TokenReading
pub mod Given
pub mod Repeating
