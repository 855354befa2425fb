-- Lemmas.
mod Fronts
