-- Lemmas on the book of ceilings.
pub mod Entries
pub mod Keeping
pub mod Growth
pub mod Moves
pub mod Newest
pub mod Late
pub mod Consenting
pub mod Renames
