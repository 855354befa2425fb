-- What is told of bytes in and out, and how faults are counted.
pub mod Faults
pub mod Told
pub mod Moments
pub mod Statuses
pub mod Links
