pub mod EntryLaws
pub mod ExtendLaws
pub mod FirstFrom
pub mod Lookups
pub mod NewCells
pub mod Order
pub mod StepLaws
pub mod Walks
