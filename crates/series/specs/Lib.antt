pub mod Kinds
pub mod Tables
pub mod Of
pub mod Moving
pub mod Noting
pub mod Calls
