pub mod Code
pub mod Laws
pub mod EccNor
pub mod Coded
pub mod Shapes
pub mod Formed
pub mod Clear
pub mod Wiping
