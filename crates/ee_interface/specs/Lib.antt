pub mod CommandLine
pub mod Script
pub mod ReplayFault
pub mod Fault
pub mod Causes
pub mod Beside
