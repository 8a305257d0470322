pub mod Sundays
pub mod Later
