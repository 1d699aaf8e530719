pub mod Sums
pub mod Trees
pub mod Sequences
pub mod Estimates
pub mod Listing
pub mod Roads
pub mod Counting
