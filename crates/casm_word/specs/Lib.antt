pub mod Bounds
pub mod Decoding
pub mod Encoding
pub mod Expressions
pub mod Offset
pub mod Parts
pub mod Rules
pub mod Word
