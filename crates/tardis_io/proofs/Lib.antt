-- Lemmas.
pub mod Told
mod Fronts
