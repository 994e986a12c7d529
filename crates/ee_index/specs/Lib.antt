pub mod Entries
pub mod Index
pub mod Lent
pub mod Cursors
