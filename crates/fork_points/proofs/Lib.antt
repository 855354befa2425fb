-- Lemmas on what is asked of each state, and on fork points among the shared states.
pub mod Walks
pub mod Asked
pub mod Forks
