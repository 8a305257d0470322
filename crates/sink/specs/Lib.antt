pub mod Logs
pub mod Frames
pub mod Tables
pub mod Listings
