pub mod JudgeLemmas
pub mod OneJudgement
