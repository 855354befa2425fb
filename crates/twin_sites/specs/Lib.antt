-- When nobody can tell two sites in memory apart, and what follows.
pub mod Twins
pub mod Laws
