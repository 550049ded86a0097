pub mod Layers
pub mod Pinned
