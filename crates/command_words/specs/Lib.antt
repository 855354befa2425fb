-- Which words are a command.
pub mod Settings
pub mod Values
pub mod Forms
pub mod Commands
pub mod Given
pub mod Splits
pub mod Servings
pub mod Places
pub mod Laws
pub mod Readings
pub mod Helps
