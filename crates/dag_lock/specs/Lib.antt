-- Passes of a lock, what they have seen and own, and what each step of the lock tells.
pub mod Known
pub mod Badges
pub mod Turns
pub mod Told
pub mod Named
pub mod Steps
