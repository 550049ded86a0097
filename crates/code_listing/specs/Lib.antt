pub mod Operands
pub mod Assembly
pub mod Listing
