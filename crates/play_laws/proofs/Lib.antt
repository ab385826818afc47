pub mod SearchLemmas
pub mod OneMark
pub mod MarkedPlay
pub mod Possible
pub mod HistoriesGoOn
pub mod ArenaGoesOn
pub mod ValueLemmas
pub mod NumberBounds
