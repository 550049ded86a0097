pub mod Constants
pub mod Frames
