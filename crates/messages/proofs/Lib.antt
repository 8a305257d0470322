pub mod Values
pub mod First
pub mod Sorts
pub mod Refused
pub mod Kept
pub mod Carried
pub mod Small
