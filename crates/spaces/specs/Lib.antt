pub mod Spaces
pub mod Runs
pub mod Lines
