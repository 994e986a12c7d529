pub mod Explain
pub mod Files
