pub mod Synthesis
pub mod Promised
