-- Why sites that tell the truth agree.
pub mod Places
pub mod Histories
pub mod Moves
pub mod Batches
pub mod Keeps
pub mod Bags
pub mod Stays
pub mod Agree
pub mod Truths
pub mod Judged
pub mod Carried
pub mod Runs
pub mod Wrong
