pub mod Words
pub mod Names
pub mod Spelling
pub mod Signs
pub mod Found
pub mod Runs
