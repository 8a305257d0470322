pub mod Texts
pub mod Decodes
pub mod Answers
