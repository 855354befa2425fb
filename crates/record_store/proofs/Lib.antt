-- Lemmas on the store.
pub mod Holders
pub mod Reading
pub mod Adding
pub mod ChildNotes
pub mod Holding
pub mod Records
pub mod LatestHolders
pub mod Collecting
pub mod Next
pub mod QuietRows
pub mod RowOrders
pub mod RowStores
