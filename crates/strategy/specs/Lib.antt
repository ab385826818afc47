pub mod Plan
pub mod Fits
pub mod Listing
pub mod Numbers
pub mod Merged
pub mod Found
