pub mod Replaced
pub mod Hoped
pub mod Lost
