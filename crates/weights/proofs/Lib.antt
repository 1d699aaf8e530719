pub mod Divisors
pub mod Multiples
pub mod Scales
pub mod Prescribed
pub mod Weighed
pub mod Frames
