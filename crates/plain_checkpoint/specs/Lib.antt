-- A history told in parts, with its floors at the end: what the parts are, which fit, and what all that is told keeps.
pub mod Checkpoints
pub mod Laws
pub mod WrongCheckpoints
pub mod Worked
