pub mod Letters
pub mod Traces
