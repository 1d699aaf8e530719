pub mod Stands
pub mod Of
pub mod Exact
