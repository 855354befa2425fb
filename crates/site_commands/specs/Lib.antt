-- What the commands of a site do, and how they end.
pub mod Runs
pub mod Ends
pub mod Counts
