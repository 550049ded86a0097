pub mod Agree
pub mod Faithful
pub mod Laws
pub mod Samples
