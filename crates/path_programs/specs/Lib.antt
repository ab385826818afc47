pub mod PathTests
pub mod Made
pub mod Growth
pub mod Lead
