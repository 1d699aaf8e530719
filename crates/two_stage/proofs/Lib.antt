pub mod Sizes
pub mod Settling
pub mod Stepping
pub mod Shares
pub mod Cutting
pub mod Products
pub mod Begun
