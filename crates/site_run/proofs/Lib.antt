-- Lemmas on what was answered and written, and on how a run ends.
mod FormLaws
mod Turns
mod Serving
mod Ends
mod Replies
mod Takings
mod Prompts
mod Lasts
