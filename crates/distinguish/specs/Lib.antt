pub mod Telling
pub mod Differences
pub mod Columns
pub mod Steps
pub mod Trees
pub mod Rounds
