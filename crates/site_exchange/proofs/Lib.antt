-- Lemmas on what sites give each other.
pub mod Judgements
pub mod News
pub mod Consents
pub mod Sizes
mod FullRooms
