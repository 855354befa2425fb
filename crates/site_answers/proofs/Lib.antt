-- Lemmas on what bytes ask for, and on states and their slots.
pub mod Asking
pub mod Lending
pub mod Ordering
