pub mod Operator
pub mod Column
pub mod State
pub mod Star
pub mod Leads
pub mod Block
pub mod Kept
