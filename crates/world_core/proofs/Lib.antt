-- Lemmas on several sites and their bag.
mod Lists
mod Items
mod BodyReadings
mod Batches
mod Standing
mod Replying
mod Running
