pub mod Claims
pub mod Formulas
