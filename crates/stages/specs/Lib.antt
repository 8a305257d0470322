pub mod Stages
pub mod Machines
pub mod Told
