-- Conflict keys, and values over several states.
pub mod Joins
pub mod Values
pub mod Regions
pub mod Opens
pub mod Pages
