pub mod Places
pub mod View
pub mod Machine
pub mod Taking
