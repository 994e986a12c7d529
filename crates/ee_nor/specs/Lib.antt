pub mod Coded
pub mod Nor
pub mod Pairs
pub mod Formed
pub mod Wiping
pub mod Laws
