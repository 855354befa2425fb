-- Lemmas on the text of a log.
mod Spelling
mod Apart
mod Readings
mod Crashes
