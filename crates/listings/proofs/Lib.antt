pub mod Runs
pub mod Defaults
pub mod Lines
pub mod Evaluated
