pub mod ShowingLemmas
pub mod ShowingFacts
