pub mod Stream
pub mod Fate
pub mod Listed
pub mod Formed
pub mod Numbers
