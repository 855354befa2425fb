-- What lines are answered by, what an audit writes, and how the runs end.
pub mod Answers
pub mod Outcomes
pub mod Wanting
pub mod Fitting
