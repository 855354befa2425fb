-- The line `N auto`, what lines are answered by, and how the runs end.
pub mod AutoLines
pub mod Telling
pub mod RuledCores
pub mod Ruled
pub mod Answers
pub mod Outcomes
