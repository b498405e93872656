pub mod Fillings
pub mod Words
pub mod Lines
