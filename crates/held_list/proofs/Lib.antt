pub mod Differing
pub mod Lifting
pub mod Placing
pub mod Rising
pub mod Steps
pub mod Totals
pub mod Maps
