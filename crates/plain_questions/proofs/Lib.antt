-- What follows from the definitions.
pub mod Spelled
pub mod Apart
pub mod Told
pub mod Pages
pub mod Once
pub mod Collecting
pub mod Transactions
pub mod Bases
pub mod Grown
pub mod Staying
pub mod Wrong
