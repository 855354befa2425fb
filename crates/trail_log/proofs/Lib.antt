-- Lemmas on trails.
pub mod Entries
pub mod ChunkRows
pub mod Replies
