-- Disks and stores in memory: their records, and what they know by them.
pub mod Memory
pub mod MemoryLaws
pub mod Crashes
pub mod MemoryDisks
pub mod MemoryStores
