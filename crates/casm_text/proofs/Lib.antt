pub mod Forms
pub mod ExactForms
pub mod CodeReading
pub mod Words
pub mod Refusing
pub mod PrintedTexts
pub mod PrintedSoFar
