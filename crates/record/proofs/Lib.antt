pub mod Names
pub mod Valid
pub mod Same
