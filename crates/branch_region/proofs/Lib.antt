-- Lemmas on regions.
pub mod Orders
pub mod Told
pub mod Parents
pub mod Steps
pub mod Named
pub mod Waiting
pub mod Marked
