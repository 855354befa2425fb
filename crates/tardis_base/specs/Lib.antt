-- What the types stand for, and what a machine is.
pub mod Sizes
pub mod Ids
pub mod Keys
pub mod Bytes
pub mod Same
pub mod Valid
pub mod Flags
pub mod Faults
pub mod Plain
