-- Links that were taken, and what was done with each.
pub mod Rows
pub mod Pools
pub mod Laws
