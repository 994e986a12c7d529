pub mod Crc
pub mod Pages
pub mod Latest
pub mod Taken
pub mod Causes
