pub mod Finding
pub mod Merging
pub mod Order
pub mod OneLine
