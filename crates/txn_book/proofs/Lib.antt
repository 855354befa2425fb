-- Lemmas on the open transactions.
pub mod Entries
pub mod Places
pub mod Written
