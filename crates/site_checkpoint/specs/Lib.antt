-- A checkpoint in memory: what it holds, for what it stands, and what its calls answer.
pub mod Loaded
pub mod Stands
pub mod Held
pub mod Takes
pub mod Arrivals
pub mod Floors
pub mod Ends
