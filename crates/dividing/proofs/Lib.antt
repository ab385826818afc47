pub mod RoundLemmas
pub mod RowLemmas
pub mod DivisionLemmas
