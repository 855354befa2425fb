-- A shorter history: rows of states that arrive at a site in one step, and what they keep.
pub mod Rows
pub mod Laws
pub mod WrongRows
pub mod Worked
