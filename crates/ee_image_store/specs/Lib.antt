pub mod Machine
pub mod Erases
pub mod Steps
pub mod Trace
pub mod Opening
pub mod FileFaults
pub mod Told
