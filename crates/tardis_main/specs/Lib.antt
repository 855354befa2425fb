-- What the program does.
pub mod Words
pub mod Helps
pub mod Program
pub mod Carried
pub mod Laws
