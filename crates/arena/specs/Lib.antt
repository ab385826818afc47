pub mod Told
pub mod Numbered
pub mod Left
pub mod Building
