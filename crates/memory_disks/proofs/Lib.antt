-- Lemmas on disks.
mod Calls
mod Torn
mod Images
