pub mod Drawing
pub mod Responses
pub mod Failures
pub mod Runs
pub mod Reported
pub mod Laws
