pub mod Holds
pub mod Cuts
pub mod Numbered
pub mod InclusionLemmas
pub mod Explored
pub mod Exploring
mod Entering
pub mod Stands
mod Simulating
