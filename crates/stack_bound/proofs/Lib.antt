pub mod Rules
pub mod Paths
pub mod Enough
pub mod Marks
pub mod Walking
pub mod Whole
