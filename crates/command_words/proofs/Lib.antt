-- Lemmas on words.
pub mod Lists
pub mod Numerals
pub mod Readings
pub mod Givens
pub mod Runs
pub mod Copies
mod Places
