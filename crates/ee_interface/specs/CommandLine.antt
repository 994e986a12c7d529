pub mod Form
pub mod Job
pub mod Operands
