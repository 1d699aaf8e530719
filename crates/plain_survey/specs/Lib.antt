pub mod States
pub mod Calls
pub mod Reports
pub mod Kinds
pub mod Requests
pub mod Laws
pub mod Estimates
pub mod Asking
