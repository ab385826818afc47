pub mod Exact
pub mod Counting
pub mod Joined
pub mod Standing
pub mod Operation
pub mod PathTests
pub mod Tally
