pub mod PlannerLemmas
mod Gathering
mod LiveLists
mod Starts
mod Wearing
mod Lasting
mod Premises
pub mod Public
