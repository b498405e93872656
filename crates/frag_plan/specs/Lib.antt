pub mod AtBegin
pub mod Plan
pub mod Scene
