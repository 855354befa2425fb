-- The record that arrived last, as a store holds it.
pub mod Newest
