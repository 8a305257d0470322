pub mod Openings
pub mod Found
pub mod Shown
