pub mod Opens
pub mod Saying
pub mod Only
pub mod Shows
