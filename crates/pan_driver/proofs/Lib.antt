pub mod ForeignNames
pub mod Homes
pub mod Whole
pub mod EnoughStack
pub mod Bounded
pub mod Sources
