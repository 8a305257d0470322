pub mod Headers
pub mod Merging
pub mod Order
pub mod OneLine
