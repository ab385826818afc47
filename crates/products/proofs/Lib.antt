pub mod PlaceLemmas
pub mod WalkLemmas
pub mod JoiningLemmas
pub mod EndLemmas
pub mod StopLemmas
pub mod WatchingLemmas
