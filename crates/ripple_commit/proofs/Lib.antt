-- Lemmas on the way to a landing.
pub mod Ways
