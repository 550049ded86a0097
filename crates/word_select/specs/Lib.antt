pub mod Facts
pub mod Selected
pub mod Bounds
pub mod Pruned
