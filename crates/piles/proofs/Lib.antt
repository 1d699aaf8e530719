mod Begun
pub mod Settings
