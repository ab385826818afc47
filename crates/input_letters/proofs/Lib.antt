pub mod LetterLemmas
pub mod TraceLemmas
pub mod StreamLemmas
pub mod EventLines
