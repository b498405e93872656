pub mod Elements
mod Maps
pub mod Typed
pub mod Variants
