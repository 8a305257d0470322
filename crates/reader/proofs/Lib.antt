pub mod Scan
pub mod First
pub mod Cuts
pub mod Shifts
pub mod Joins
pub mod Told
pub mod Numbers
