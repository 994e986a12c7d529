pub mod Bases
pub mod Streams
pub mod Flags
pub mod Digits
pub mod Wrong
