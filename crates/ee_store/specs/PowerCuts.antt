pub mod Events
pub mod Deciding
pub mod Outcome
pub mod Bench
