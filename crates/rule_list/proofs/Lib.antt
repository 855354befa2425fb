-- Lemmas on rules.
pub mod Cuts
pub mod Bests
