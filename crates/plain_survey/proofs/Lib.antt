pub mod Shares
pub mod Averages
pub mod Reports
pub mod Starts
pub mod Requests
pub mod Expanding
