pub mod Emit
pub mod Evaluation
pub mod Filling
pub mod Form
pub mod Meaning
pub mod Tables
