pub mod Marks
pub mod Items
pub mod Steps
pub mod Words
pub mod Parting
pub mod Blanked
pub mod Places
pub mod Breaks
