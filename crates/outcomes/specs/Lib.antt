pub mod Sums
pub mod Trees
pub mod Listing
pub mod Estimates
pub mod Counting
pub mod Laws
