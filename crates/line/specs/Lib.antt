pub mod Examples
pub mod Laws
pub mod Lines
pub mod Places
pub mod Shown
