-- Lemmas on turns, on passes, and on what a session asked in all.
mod Fronts
mod Turning
mod Stepping
mod Going
mod Talking
mod Served
mod Prompts
