pub mod Utc
pub mod Moments
pub mod Moves
pub mod Moving
