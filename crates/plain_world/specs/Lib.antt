-- Several sites that give each other their news: what they hold, what they answer, and what holds of them while they are honest.
pub mod Worlds
pub mod Bodies
pub mod Steps
pub mod Honest
pub mod Laws
pub mod RowWords
pub mod Rows
pub mod WrongWorlds
