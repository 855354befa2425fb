-- The book of ceilings: what it keeps, where its states stand in a table, and what its calls answer.
pub mod Book
pub mod Places
pub mod Held
pub mod Answers
pub mod Floors
pub mod Consents
pub mod Renaming
