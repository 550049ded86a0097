pub mod Pieces
pub mod Expressions
pub mod Canonical
pub mod Unspanned
pub mod ReadsBack
