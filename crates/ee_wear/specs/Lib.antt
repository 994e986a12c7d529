pub mod Counts
pub mod Since
pub mod Laws
