pub mod Ways
pub mod Exact
