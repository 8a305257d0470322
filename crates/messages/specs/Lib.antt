pub mod Ways
pub mod Models
pub mod Turns
pub mod Roles
pub mod Refusing
pub mod Carrying
pub mod ItemLaws
