pub mod Divided
pub mod Classes
pub mod Splits
pub mod Shifts
pub mod Current
pub mod Laws
