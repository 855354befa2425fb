-- The store of one site: what it holds, when it stands for a history, and what its calls answer.
pub mod Store
pub mod ChildNotes
pub mod Held
pub mod Stands
pub mod Answers
