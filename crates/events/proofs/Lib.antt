pub mod Passes
pub mod Going
pub mod Rooms
