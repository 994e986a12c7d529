pub mod Text
pub mod Fault
pub mod Reading
pub mod Laws
