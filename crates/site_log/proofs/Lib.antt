-- Lemmas on logs.
pub mod Mixing
pub mod Appending
pub mod Growing
pub mod Leading
pub mod Marks
pub mod Standing
pub mod Replacing
pub mod Drafting
pub mod Replaying
pub mod Wanting
mod Making
mod Leaving
mod Mending
mod Readying
mod Telling
