-- The bytes of questions and of what is told.
pub mod Memory
pub mod Pages
pub mod Laws
