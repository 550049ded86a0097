pub mod Inner
pub mod Sources
pub mod Causes
