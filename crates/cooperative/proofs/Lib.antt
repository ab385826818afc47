pub mod RowLemmas
pub mod MadeLemmas
pub mod NumberLemmas
pub mod FarLemmas
pub mod OverArena
