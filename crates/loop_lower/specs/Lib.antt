pub mod Lowered
pub mod Spine
