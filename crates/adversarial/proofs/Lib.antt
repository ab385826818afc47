pub mod AnsweringLemmas
pub mod Numbered
pub mod AnswerTables
pub mod ChosenLemmas
pub mod Evading
pub mod OverArena
pub mod AnswerDiagrams
