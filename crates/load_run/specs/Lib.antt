-- The script of a load, over the plain site, and what plays it in memory.
pub mod Plays
pub mod Scripts
pub mod Lines
pub mod Held
pub mod Ends
