pub mod BothWays
pub mod WrongMachines
