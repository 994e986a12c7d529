pub mod Records
pub mod Settings
pub mod SecondSchema
pub mod Listing
pub mod Header
pub mod Applying
pub mod Unsetting
pub mod Verifying
