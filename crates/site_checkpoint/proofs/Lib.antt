-- Why a checkpoint in memory stands for what was told.
pub mod Closed
pub mod Parts
pub mod Arriving
pub mod Ending
