pub mod Following
pub mod Walking
pub mod Stepping
