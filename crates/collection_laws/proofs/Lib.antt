-- Why collecting is unseen.
pub mod Unseen
pub mod Served
pub mod Room
pub mod Laws
pub mod Runs
pub mod Wrong
