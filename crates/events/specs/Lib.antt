pub mod Events
pub mod Passing
pub mod Room
