-- What a landing means to the transaction that commits there.
pub mod Commits
