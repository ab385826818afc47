pub mod Moves
pub mod Table
pub mod Numbering
pub mod Subautomaton
pub mod Search
pub mod Listing
