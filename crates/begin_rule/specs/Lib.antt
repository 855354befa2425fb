-- What a choice of a read state answers.
pub mod Choices
pub mod Faults
