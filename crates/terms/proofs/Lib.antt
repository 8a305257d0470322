pub mod Changes
pub mod Openings
pub mod Apart
