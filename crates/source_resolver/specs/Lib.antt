pub mod formers
pub mod Numbering
pub mod Resolving
pub mod Slots
