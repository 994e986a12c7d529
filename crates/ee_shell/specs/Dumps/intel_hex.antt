pub mod Record
pub mod Text
pub mod Fault
pub mod Written
pub mod Reading
pub mod Row
pub mod Met
pub mod Laws
