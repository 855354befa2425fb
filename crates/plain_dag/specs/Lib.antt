-- The history of a site: what a reader must believe of states, reads, merges, landings and collection.
pub mod States
pub mod Above
pub mod Way
pub mod Writers
pub mod Conflicts
pub mod Dag
pub mod Forks
pub mod Begin
pub mod Landing
pub mod Entries
pub mod Floors
pub mod Collection
pub mod Paths
pub mod Growth
pub mod Rows
pub mod Laws
