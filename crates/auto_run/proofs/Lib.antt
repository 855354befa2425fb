-- Lemmas on auto lines, on what an auto step can be refused, and on how the runs end.
mod Lines
mod Ends
mod Refusals
mod Answering
mod Shells
pub mod AutoRuns
mod AutoPrompts
