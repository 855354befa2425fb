-- When nobody can tell two stores apart, and what follows.
pub mod Tables
pub mod Stores
pub mod Reads
pub mod Laws
