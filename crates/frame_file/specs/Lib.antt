pub mod Limits
pub mod Pieces
pub mod Fields
pub mod Faults
pub mod Refusals
pub mod Written
pub mod Spots
