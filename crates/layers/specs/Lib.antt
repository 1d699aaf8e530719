pub mod Standings
pub mod Stratified
pub mod TwoStage
pub mod Stages
pub mod Laws
