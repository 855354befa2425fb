-- Why clients can rely on the laws.
pub mod Refusals
pub mod Dags
pub mod Records
pub mod Tellings
pub mod Effects
pub mod EffectsOfTxns
pub mod EffectsOfSites
pub mod Held
pub mod Commits
pub mod Laws
pub mod Kept
pub mod Serial
pub mod OwnWrites
pub mod Ends
pub mod Wrong
pub mod Events
pub mod Rows
