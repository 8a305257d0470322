pub mod Cases
pub mod Filling
pub mod Grown
pub mod Puts
