pub mod Layout
pub mod Meaning
pub mod Needs
pub mod Stage
pub mod WellFormed
