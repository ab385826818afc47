pub mod CubeLemmas
pub mod ListingLemmas
pub mod NumberLemmas
pub mod MergedLemmas
pub mod FieldsLemmas
pub mod LetterLemmas
pub mod BelowLemmas
pub mod FoundLemmas
