mod Spelling
pub mod Public
