pub mod PowerCutsLemmas
