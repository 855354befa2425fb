-- Lemmas on frames and their cut.
pub mod Words
mod Lent
pub mod Joins
pub mod OneCut
