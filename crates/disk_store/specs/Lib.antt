-- Disks: what a read gives, what a crash may leave, and what a store tells.
pub mod Disks
pub mod Stores
