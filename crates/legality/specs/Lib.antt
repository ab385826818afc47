pub mod Violation
pub mod Spared
pub mod Legal
