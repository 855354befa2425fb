-- Lemmas on the lock's rule.
pub mod Fronts
pub mod Places
pub mod Keeping
pub mod Moves
pub mod Parts
pub mod Closing
pub mod Stepping
