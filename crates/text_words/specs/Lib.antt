-- How numbers, ids and byte lists are written as words, and how words are read back.
pub mod Words
pub mod Texts
pub mod Laws
pub mod Puts
pub mod Decodings
