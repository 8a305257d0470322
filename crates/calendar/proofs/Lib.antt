pub mod Counting
pub mod Dates
pub mod Nearest
pub mod Texts
pub mod Picked
pub mod Ways
pub mod Written
pub mod Weekdays
