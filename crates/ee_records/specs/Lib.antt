pub mod Check
pub mod Record
pub mod Calls
pub mod Steps
pub mod Laws
