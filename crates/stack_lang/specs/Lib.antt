pub mod Shown
pub mod Frame
pub mod Frames
pub mod Meaning
pub mod Text
pub mod Needs
pub mod Stage
pub mod WellFormed
