pub mod Rows
pub mod Standings
pub mod StratifiedPlans
pub mod TwoStagePlans
pub mod Stages
