pub mod Printed
pub mod Dialects
pub mod ReadBack
pub mod PartSearch
