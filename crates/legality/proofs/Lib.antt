pub mod GoesOn
pub mod WatchLemmas
pub mod PlayableLemmas
pub mod LetterParts
pub mod LegalityLemmas
pub mod RestrictLemmas
pub mod ViolationLemmas
pub mod LegalLemmas
