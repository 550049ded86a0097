pub mod Machine
pub mod Answers
pub mod Follow
pub mod Reading
pub mod Items
