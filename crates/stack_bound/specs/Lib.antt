pub mod Paths
pub mod Depth
pub mod Calls
pub mod Nodes
pub mod Bounds
pub mod Walks
