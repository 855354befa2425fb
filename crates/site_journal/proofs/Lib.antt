-- Lemmas on journals.
mod Texts
mod Readings
mod Crash
mod Times
mod Appending
mod Entries
mod Replaying
mod Mending
mod Staging
