-- Trails, their bytes, and what a request does to them.
pub mod Frames
pub mod Trail
pub mod Ends
