mod Pages
mod Tears
mod Outcomes
mod Fuses
mod Joined
mod Endurance
mod Premises
mod Runs
mod Kept
pub mod Public
