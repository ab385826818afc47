pub mod TextLemmas
pub mod TextFacts
pub mod TranslationLemmas
pub mod OneTranslation
