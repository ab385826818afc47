pub mod AlikeLemmas
pub mod LastingLemmas
pub mod FormulaLemmas
pub mod OverLemmas
