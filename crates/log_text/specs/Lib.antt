-- The text of a log, in which an entry is whole exactly where none of its bytes is zero.
pub mod Texts
pub mod Laws
pub mod Fronts
