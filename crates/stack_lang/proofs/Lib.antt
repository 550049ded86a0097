pub mod Equations
pub mod WordsBefore
pub mod Spending
