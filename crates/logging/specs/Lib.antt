pub mod Follow
pub mod Own
pub mod Walks
pub mod Steps
