pub mod Scale
pub mod Laws
pub mod Begun
pub mod Of
