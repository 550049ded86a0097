pub mod Rows
pub mod Flat
pub mod Reads
pub mod Flattened
pub mod Source
pub mod Literals
pub mod ScopeTables
