pub mod Assertions
pub mod Evaluations
pub mod Fillings
pub mod Follows
pub mod Leads
pub mod Meanings
pub mod Places
pub mod Tables
