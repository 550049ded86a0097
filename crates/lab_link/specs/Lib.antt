pub mod Reach
pub mod Lengths
pub mod Turns
pub mod Lowered
pub mod Linked
