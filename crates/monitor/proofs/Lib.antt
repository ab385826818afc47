pub mod Lasts
pub mod EventLemmas
