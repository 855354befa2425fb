-- Lemmas on the log of groups.
mod Parts
mod Ends
mod Readings
mod Crashes
mod Steps
