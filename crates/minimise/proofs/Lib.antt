pub mod QuotientLemmas
pub mod MergeLemmas
pub mod Counts
pub mod Once
pub mod Smallest
pub mod Unique
pub mod Only
