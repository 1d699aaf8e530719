pub mod Begun
pub mod Making
pub mod Piles
