-- When a store and a book stand together for a history, and what they keep as states are collected.
pub mod Together
pub mod Places
