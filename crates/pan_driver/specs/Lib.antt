pub mod Chained
pub mod InTime
pub mod Errors
pub mod Joined
pub mod Bounded
