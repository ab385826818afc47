pub mod Asked
pub mod Exact
pub mod Lines
pub mod Halves
pub mod Digits
pub mod Marks
pub mod AskingLaws
