pub mod Bounded
pub mod Branching
pub mod Counting
pub mod FirstFault
pub mod Flow
pub mod Prepared
pub mod Statements
pub mod Typed
