pub mod Words
pub mod Sources
pub mod Laws
