pub mod Operating
mod Runs
pub mod Quoting
