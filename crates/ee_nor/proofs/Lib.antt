pub mod CodedLemmas
mod Bits
mod Words
mod PairRuns
mod High
mod Steps
mod Wipes
mod Premises
mod Halves
