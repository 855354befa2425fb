-- What a server does from its address to its trail.
pub mod Serving
pub mod Beside
