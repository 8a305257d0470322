pub mod Amounts
pub mod Codes
pub mod Elements
pub mod Fractions
pub mod Values
pub mod Parameters
pub mod CodeLaws
