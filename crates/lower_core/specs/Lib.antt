pub mod Control
pub mod Core
pub mod Data
pub mod Felts
pub mod Tests
