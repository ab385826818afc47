pub mod KeywordLemmas
pub mod LimitLemmas
pub mod WordLemmas
pub mod LineLemmas
pub mod CountLemmas
