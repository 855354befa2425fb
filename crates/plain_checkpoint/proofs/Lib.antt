-- Why what is told keeps what it keeps.
pub mod Arrived
pub mod Gone
pub mod Lines
pub mod Sites
pub mod Holding
pub mod Larger
pub mod Wrong
