-- Lemmas on the commands of a site.
pub mod FrameRuns
pub mod LineRuns
pub mod NoMemory
mod Servers
mod Counting
