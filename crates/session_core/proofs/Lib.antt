-- Lemmas on the site in memory.
pub mod Entries
pub mod Written
pub mod Answers
pub mod Standing
pub mod Memory
pub mod OpenSessions
pub mod Reading
pub mod Writing
pub mod Beginning
pub mod Growing
pub mod Committing
pub mod MergeCommitting
pub mod Showing
pub mod Settings
pub mod Telling
pub mod Getting
pub mod Opening
pub mod Asking
pub mod MergeShows
pub mod Merging
pub mod FloorMoves
pub mod Tidying
pub mod Exchanging
pub mod Resting
pub mod Together
pub mod TakingRows
mod JoiningInOne
