-- Lemmas on ascending pairs, and on the tiles that they are kept in.
pub mod PairOrder
pub mod PairSets
pub mod Merges
pub mod TileBits
pub mod TileLists
pub mod TileViews
pub mod TileMerges
pub mod TilePaths
