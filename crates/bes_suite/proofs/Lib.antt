pub mod RunLemmas
pub mod Unique
