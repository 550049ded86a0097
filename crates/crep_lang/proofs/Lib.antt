pub mod Induction
pub mod Handlers
pub mod Exprs
pub mod Runs
pub mod Texts
pub mod Sizes
