pub mod CommandLineLemmas
pub mod ScriptLemmas
