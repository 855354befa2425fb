-- Lemmas on where a transaction begins.
pub mod Rising
pub mod Newest
pub mod Chosen
pub mod NamedStates
pub mod Admissions
