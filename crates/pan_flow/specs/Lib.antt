pub mod Flow
pub mod Live
pub mod Functions
