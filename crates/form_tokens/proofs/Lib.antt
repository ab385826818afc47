pub mod Pieces
pub mod Signs
pub mod NamesLemmas
pub mod Runs
