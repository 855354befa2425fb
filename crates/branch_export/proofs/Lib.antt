-- Lemmas on exports.
pub mod Orders
pub mod Contents
pub mod Judged
pub mod Gathered
pub mod Kept
pub mod Scripting
pub mod Reading
