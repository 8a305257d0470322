mod Taken
pub mod Counts
