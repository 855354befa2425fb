-- What a check of the end constraints answers.
pub mod Checks
