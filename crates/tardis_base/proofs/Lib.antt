-- Laws of keys in order, and of the sets of keys and of writes.
pub mod KeyOrder
pub mod KeySets
pub mod WriteSets
pub mod Searches
pub mod TestParts
