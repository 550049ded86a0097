pub mod Homes
pub mod Variables
pub mod Renamed
pub mod Accepts
