pub mod PartsFound
pub mod Cuts
pub mod Written
pub mod Numbered
pub mod Spelled
pub mod PrintedBack
pub mod PrintedFacts
