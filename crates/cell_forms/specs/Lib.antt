pub mod Growing
pub mod Laying
pub mod LogStands
pub mod Showing
pub mod Standing
pub mod Stands
