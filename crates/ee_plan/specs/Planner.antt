pub mod Plan
pub mod LateStore
pub mod Rounds
pub mod Places
