pub mod Field
pub mod Fields
pub mod Laws
pub mod Line
pub mod Number
