pub mod Joining
pub mod Inside
pub mod Ordinary
