pub mod Faults
pub mod Moving
pub mod Hex
pub mod Laws
pub mod Inspecting
pub mod Document
pub mod InspectLaws
