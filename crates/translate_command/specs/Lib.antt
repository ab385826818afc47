pub mod AutomatonText
pub mod Translation
