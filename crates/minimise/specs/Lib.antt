pub mod Minimal
pub mod Quotient
