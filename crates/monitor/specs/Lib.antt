pub mod Verdicts
pub mod Configuration
