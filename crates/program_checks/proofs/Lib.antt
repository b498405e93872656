pub mod Accepting
pub mod Checks
pub mod Entries
