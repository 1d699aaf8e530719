pub mod Terms
pub mod Examples
