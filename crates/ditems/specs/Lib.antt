pub mod GroupLaws
pub mod Groups
pub mod MoveLaws
pub mod Moves
pub mod Readings
pub mod TimeLaws
pub mod Times
