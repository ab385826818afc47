pub mod Table
pub mod Value
pub mod Located
pub mod Numbers
pub mod Inclusion
pub mod Followed
pub mod Entered
pub mod Related
