-- Lemmas on the words of the server.
pub mod Givens
pub mod Modes
