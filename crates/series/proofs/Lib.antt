pub mod Tabled
pub mod Tries
pub mod Moves
pub mod Finding
