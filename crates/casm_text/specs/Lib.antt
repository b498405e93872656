pub mod Text
pub mod Reading
pub mod Refusals
pub mod Printing
