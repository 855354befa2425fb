-- Lines, and the cut of bytes into them.
pub mod Lines
pub mod Cuts
pub mod Sizes
pub mod Laws
