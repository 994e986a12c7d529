pub mod ByNameLemmas
pub mod PartLemmas
pub mod DumpsLemmas
pub mod XcubeLemmas
