-- Lemmas on serving.
mod Longer
mod Hands
mod Pooling
