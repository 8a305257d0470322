pub mod Spans
pub mod Sundays
pub mod Listed
pub mod Zones
pub mod Utc
pub mod Rules
pub mod Settings
