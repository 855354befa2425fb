-- How what lasts is seen, put behind a log, and taken back.
pub mod Alike
pub mod Counts
pub mod Firsts
pub mod FloorsRead
pub mod Joined
pub mod Loads
pub mod Newest
pub mod Putting
pub mod Raised
pub mod Ruled
pub mod Seen
pub mod Taken
