-- What a machine of a test is.
pub mod Owing
