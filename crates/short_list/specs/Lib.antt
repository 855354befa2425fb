-- What a short list is seen as, and where its items stand.
pub mod Roomy
pub mod Places
