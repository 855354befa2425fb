-- Frames, the cut of bytes into them, and what their bodies ask.
pub mod Frames
pub mod Cuts
pub mod Sizes
pub mod Events
pub mod Laws
