pub mod Checks
pub mod Rows
pub mod Whole
pub mod Meanings
pub mod Tables
