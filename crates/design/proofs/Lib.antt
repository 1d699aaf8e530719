pub mod Firsts
pub mod Checks
pub mod Calls
pub mod Once
