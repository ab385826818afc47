pub mod Looked
pub mod Leaders
pub mod PredecessorLemmas
