pub mod Found
pub mod Lines
pub mod Longest
