pub mod Cutting
pub mod Begun
pub mod ZeroTakes
pub mod Fields
