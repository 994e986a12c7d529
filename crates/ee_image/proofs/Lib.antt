mod Digits
mod Lines
mod Rows
mod Taken
mod Growing
mod Answered
mod Fronts
mod Lengths
mod Texts
mod Total
pub mod Public
