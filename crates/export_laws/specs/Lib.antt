-- What comes of the script of an export.
pub mod Laws
pub mod Rows
