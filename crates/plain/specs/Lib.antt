pub mod Of
pub mod Methods
