pub mod FormulaLemmas
pub mod CallLemmas
pub mod Performing
mod ToyTasks
pub mod WritingLemmas
pub mod ReadingLemmas
