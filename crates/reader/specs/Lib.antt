pub mod Lines
pub mod Cut
pub mod Kinds
pub mod Told
