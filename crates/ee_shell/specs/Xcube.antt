pub mod Element
pub mod Pages
pub mod Values
pub mod Import
