-- What collecting leaves alone.
pub mod Laws
pub mod Rows
