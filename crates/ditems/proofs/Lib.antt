pub mod Bounds
pub mod Fronts
pub mod Keeps
pub mod Ones
pub mod Sets
pub mod Several
pub mod Somes
pub mod Written
