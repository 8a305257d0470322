pub mod Codes
pub mod Conversions
