-- What several sites and their bag stand for, and what a run of them does.
pub mod Bags
pub mod Kept
pub mod Asked
pub mod Held
pub mod Gives
pub mod Runs
