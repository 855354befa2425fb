-- Lemmas on lines and their cut.
pub mod Parts
mod Lent
pub mod Joins
pub mod OneCut
