-- The versions of keys, and what is read of them.
pub mod Lists
pub mod Notes
pub mod Versions
pub mod Reads
pub mod Promoted
pub mod Joined
pub mod Seats
pub mod SeatOrders
