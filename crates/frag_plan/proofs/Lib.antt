pub mod Bridges
pub mod Hints
pub mod Shapes
pub mod Ways
