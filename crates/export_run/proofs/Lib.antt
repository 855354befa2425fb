-- Lemmas on exports of a site in memory.
pub mod Silences
pub mod Exporting
