pub mod Bound
pub mod More
pub mod Worlds
pub mod Ends
