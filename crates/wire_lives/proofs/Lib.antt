-- How introductions are read.
pub mod Laws
mod Read
