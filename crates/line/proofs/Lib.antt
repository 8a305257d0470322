pub mod Apart
pub mod Back
pub mod Cut
pub mod Durations
pub mod Fields
pub mod Placing
pub mod Rows
pub mod Widths
