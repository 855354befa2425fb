-- Lemmas on groups and on how a durable run ends.
mod Moments
mod InTurns
mod Grouped
mod Bodies
mod Outcomes
mod Turning
mod Running
mod TurnEnds
mod Prompts
pub mod Stores
