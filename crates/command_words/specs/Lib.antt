pub mod Panc
pub mod Words
