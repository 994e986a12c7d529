mod Erasing
mod OneCause
mod Stores
mod FileFaults
mod Openings
mod Told
pub mod Public
