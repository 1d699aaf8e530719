pub mod Faults
pub mod Lists
pub mod Fractions
pub mod Design
pub mod Plans
pub mod Idle
pub mod Laws
