pub mod Places
pub mod Joins
pub mod Joining
pub mod Ends
pub mod Stops
pub mod Watch
pub mod Watching
