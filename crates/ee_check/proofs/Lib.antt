mod Sizes
mod Dominance
mod Tight
mod Bounds
mod Walks
mod Tables
mod Stretches
mod Flaws
mod Fields
mod Lines
mod Texts
mod Premises
pub mod Public
