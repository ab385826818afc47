pub mod Columns
pub mod ColumnsOf
pub mod Ends
pub mod Kept
