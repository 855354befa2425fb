-- Lemmas on the walk that collects states.
pub mod Lists
pub mod Walks
