pub mod LeftLemmas
pub mod JoinLemmas
pub mod NumberedLemmas
pub mod LeftOfLemmas
pub mod BuildingLemmas
pub mod CountLemmas
pub mod EvenLemmas
pub mod LastingArenas
