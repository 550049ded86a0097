pub mod Pieces
pub mod Found
pub mod Refusal
pub mod TokenRow
pub mod Laws
