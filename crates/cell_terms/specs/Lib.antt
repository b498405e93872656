pub mod Resolving
pub mod Fitting
