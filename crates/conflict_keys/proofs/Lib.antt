-- Lemmas on conflict keys.
pub mod Walks
pub mod Choices
pub mod Meetings
pub mod Least
pub mod Noted
