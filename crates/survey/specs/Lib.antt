pub mod Runs
pub mod Means
pub mod Adding
pub mod Conducting
