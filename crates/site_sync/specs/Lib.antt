-- What an exchange with a peer asks, gives, reads and delivers, and rounds of exchanges.
pub mod Asking
pub mod Steps
pub mod Fetching
pub mod Delivering
pub mod Exchanges
pub mod Rounds
