mod LetterLemmas
pub mod EventLemmas
mod Outcome
mod Pieces
mod EventRuns
mod Steps
pub mod FaultPlaces
pub mod FormulaLemmas
pub mod NameCounts
pub mod LineFaults
pub mod SpecLemmas
pub mod AnswerLemmas
pub mod ReadLemmas
pub mod FaultKinds
