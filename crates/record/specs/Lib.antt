pub mod Stations
pub mod Entries
pub mod Validity
