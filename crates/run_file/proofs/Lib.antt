pub mod Order
pub mod StageLaws
pub mod EndLaws
pub mod FeedLaws
pub mod Fields
pub mod Listings
pub mod Runs
pub mod Writing
