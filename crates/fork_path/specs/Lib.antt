-- What the lists of branches of forks are.
pub mod Pairs
pub mod Tiles
pub mod Images
