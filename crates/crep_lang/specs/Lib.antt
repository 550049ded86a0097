pub mod Steps
pub mod Meaning
pub mod Text
pub mod Needs
pub mod Stage
pub mod WellFormed
