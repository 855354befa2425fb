-- Lemmas on keys in order, and on the newest record.
pub mod NextKeys
pub mod Newest
