pub mod Duels
