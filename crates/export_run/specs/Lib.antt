-- Exports of a site in memory.
pub mod Silence
pub mod Exporting
