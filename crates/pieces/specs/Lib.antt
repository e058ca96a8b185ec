pub mod Kinds
pub mod Faults
pub mod Ranges
