pub mod World
pub mod Control
pub mod Memory
pub mod Seen
pub mod Runs
