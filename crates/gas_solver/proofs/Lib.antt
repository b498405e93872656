mod Answering
mod Balanced
mod ClosedTerms
pub mod Deciding
mod EdgeLaws
mod EquationLaws
mod Families
mod FreeTerms
mod HeldCounts
mod Knowing
mod Lines
mod Listing
pub mod OneAnswer
mod OneText
mod Paid
mod Suiting
mod WrittenKinds
