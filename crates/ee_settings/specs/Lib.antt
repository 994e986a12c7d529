pub mod Setting
pub mod File
pub mod Calls
pub mod Stale
pub mod Tidying
pub mod Listing
pub mod Laws
