pub mod Kinds
pub mod Letters
pub mod Parts
pub mod Signs
