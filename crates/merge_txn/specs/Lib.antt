-- What a transaction holds.
pub mod Txns
